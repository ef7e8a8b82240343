mod Appended
pub mod BaseLaws
mod Beginning
mod Blocks
mod Differing
mod Doubt
pub mod Ceasing
pub mod Decoding
pub mod JournalLaws
pub mod Emptying
mod Listing
mod Migrating
pub mod Moments
pub mod NonceLaws
mod Opening
mod Paged
mod Pieces
mod Reading
mod RecentLaws
pub mod StartLaws
pub mod Told
pub mod Unique
