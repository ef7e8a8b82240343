pub mod Dues
pub mod Generator
pub mod Plays
pub mod Rests
pub mod Steps
pub mod Summaries
pub mod Texts
