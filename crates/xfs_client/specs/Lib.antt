pub mod Commands
pub mod Desks
pub mod Hearings
pub mod History
pub mod Withdrawals
pub mod Withdraws
