pub mod ClapLaws
pub mod LeafLaws
pub mod MadeLaws
pub mod NumberLaws
pub mod TableLaws
pub mod WordsLaws
