pub mod KeyListLaws
pub mod PinLaws
