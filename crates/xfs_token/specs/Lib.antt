pub mod Amounts
pub mod Building
pub mod Classes
pub mod Fault
pub mod Pairs
pub mod Reading
pub mod Token
