pub mod LeavingLaws
pub mod NewsLaws
pub mod ResumedLaws
