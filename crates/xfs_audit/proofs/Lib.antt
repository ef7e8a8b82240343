pub mod Choices
mod Adding
mod Choosing
mod Counting
mod Hearing
mod Resting
mod Splitting
mod Stepping
mod Unended
pub mod Claiming
pub mod Ends
pub mod Findings
pub mod Flows
pub mod PayingLaws
pub mod Walks
pub mod Worth
