pub mod Prefixes
pub mod Takings
