pub mod Best
pub mod First
pub mod Raised
pub mod ReachLaws
pub mod Sixty
pub mod StepLaws
