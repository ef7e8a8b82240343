pub mod Changes
pub mod DataCodes
pub mod Jobs
pub mod Lending
pub mod Parts
pub mod Readings
pub mod Senders
pub mod TakenBack
