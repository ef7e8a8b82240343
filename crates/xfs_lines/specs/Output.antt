-- What a command writes, and its status.
pub mod BootLines
pub mod InputEnds
pub mod Refused
pub mod Statuses
pub mod Usages
