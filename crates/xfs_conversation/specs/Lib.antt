pub mod Answers
pub mod Conversation
pub mod Fronts
pub mod Immediate
pub mod Once
pub mod Parts
pub mod Pending
