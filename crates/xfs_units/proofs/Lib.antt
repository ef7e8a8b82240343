pub mod UnitLaws
