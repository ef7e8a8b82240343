mod Agreement
mod Asks
mod Booleans
mod DeskLaws
mod Hearings
pub mod Histories
mod Lasts
pub mod Numbers
pub mod Openings
mod Outcomes
mod Withdrawals
