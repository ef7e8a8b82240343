pub mod Posted
pub mod Turning
pub mod Withdrawals
