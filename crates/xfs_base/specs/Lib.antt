pub mod Causes
pub mod Counts
pub mod Memories
pub mod Money
pub mod Streams
pub mod Values
