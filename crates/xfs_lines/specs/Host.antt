-- The command `host`: its lines, what it answers, and its runs.
pub mod Runs
pub mod Verbs
