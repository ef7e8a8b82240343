pub mod Asks
pub mod Commands
pub mod Slot
pub mod Table
pub mod Tracks
