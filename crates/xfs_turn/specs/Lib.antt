pub mod Turns
pub mod Steps
pub mod Seats
pub mod Lending
