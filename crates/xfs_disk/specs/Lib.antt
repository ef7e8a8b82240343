pub mod Disk
pub mod Images
pub mod MemDisk
pub mod Moments
pub mod Steps
pub mod Wrapped
