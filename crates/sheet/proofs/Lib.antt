pub mod PasteLaws
pub mod FlatLaws
pub mod WritingLaws
pub mod LayLaws
pub mod SheetLaws
