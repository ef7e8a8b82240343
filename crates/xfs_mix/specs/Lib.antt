pub mod Asked
pub mod Mix
pub mod Reach
pub mod Steps
