pub mod PageLaws
pub mod MarkLaws
pub mod WalkLaws
pub mod TreeLaws
pub mod ScanLaws
pub mod CheckLaws
