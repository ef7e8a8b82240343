pub mod Entries
pub mod Maps
pub mod OneText
pub mod Paying
pub mod Sound
pub mod Steps
