-- The command `audit`: its lines, what it answers, and its runs.
pub mod Runs
pub mod Verbs
