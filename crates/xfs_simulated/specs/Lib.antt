pub mod Leaving
pub mod News
pub mod Resumed
pub mod Secrets
pub mod Setups
pub mod Simulated
pub mod Unused
