pub mod LineLaws
pub mod LinesLaws
pub mod NumberLaws
pub mod SetupLaws
