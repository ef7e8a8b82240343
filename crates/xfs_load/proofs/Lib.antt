pub mod BaseLaws
pub mod HearLaws
pub mod JoinLaws
pub mod PlayLaws
pub mod RestLaws
pub mod TextLaws
