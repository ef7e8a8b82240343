pub mod BootsOnce
pub mod ClientRuns
pub mod CommandRuns
pub mod FleetRuns
pub mod LoadEnds
pub mod LoadRuns
pub mod Replay
pub mod ServeRuns
