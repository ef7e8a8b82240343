pub mod Next
pub mod Offer
pub mod Received
pub mod Timeout
