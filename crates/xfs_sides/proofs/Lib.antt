pub mod MarkLaws
pub mod ReadLaws
pub mod SideLaws
