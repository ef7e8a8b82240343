pub mod Counts
pub mod Frames
pub mod RoundLaws
pub mod Turns
pub mod Watched
