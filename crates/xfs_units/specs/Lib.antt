pub mod Books
pub mod Payloads
