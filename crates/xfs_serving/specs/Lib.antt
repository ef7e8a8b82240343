pub mod Sessions
pub mod Takings
pub mod Workers
