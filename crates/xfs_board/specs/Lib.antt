pub mod Answers
pub mod Boards
pub mod Callers
pub mod Chronicles
pub mod Touches
pub mod Turns
