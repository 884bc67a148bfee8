pub mod ListLaws
pub mod SpreadLaws
pub mod StateLaws
pub mod WritingLaws
pub mod HoldLaws
pub mod Inverse
