pub mod Check
pub mod Evidence
pub mod Laws
pub mod Reading
pub mod Sums
pub mod Told
