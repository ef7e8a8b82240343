pub mod Entries
pub mod InOrder
pub mod Index
pub mod Kept
pub mod Places
pub mod Whole
