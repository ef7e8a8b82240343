mod Changes
pub mod Crash
mod Outcomes
mod Settled
mod Written
