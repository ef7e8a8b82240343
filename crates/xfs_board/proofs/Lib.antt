pub mod Chronicles
pub mod Sent
pub mod Unserved
