-- The command `guard`: its lines, what it answers, and its runs.
pub mod Begun
pub mod Command
pub mod Complete
pub mod Dispenses
pub mod Lined
pub mod Lines
pub mod Moves
pub mod OneRecord
pub mod Restarts
pub mod Runs
pub mod Starts
pub mod States
pub mod Texts
pub mod Verbs
