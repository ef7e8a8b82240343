pub mod Asks
pub mod Commands
pub mod Entries
pub mod Keyboard
pub mod Keys
