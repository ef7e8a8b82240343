pub mod Doors
pub mod Endings
pub mod Talks
