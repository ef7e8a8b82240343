pub mod Commands
pub mod Deadlines
pub mod Lending
pub mod Queue
