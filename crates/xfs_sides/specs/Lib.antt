pub mod ReadLines
pub mod Sides
