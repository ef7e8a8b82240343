-- The command `replay`: its lines, what it answers, and its runs.
pub mod Command
pub mod Events
pub mod Runs
pub mod States
