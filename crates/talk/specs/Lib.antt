pub mod Split
pub mod Talk
pub mod Leaves
