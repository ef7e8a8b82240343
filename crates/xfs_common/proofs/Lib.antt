pub mod DigitLaws
pub mod IdLaws
