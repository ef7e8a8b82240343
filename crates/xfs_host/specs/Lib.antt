pub mod Ask
pub mod Book
pub mod Host
pub mod Kept
pub mod Laws
pub mod Reply
