pub mod Boards
pub mod Counted
pub mod Doors
pub mod Links
pub mod Memories
pub mod Sessions
pub mod Tendeds
pub mod Workers
