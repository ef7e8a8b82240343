pub mod Addresses
pub mod Cancel
pub mod Commands
pub mod Errors
pub mod Payloads
