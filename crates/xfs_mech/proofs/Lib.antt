pub mod CountLaws
pub mod MotionLaws
pub mod MoveLaws
pub mod SumLaws
