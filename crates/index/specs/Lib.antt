pub mod Step
pub mod Make
pub mod Acting
pub mod Statements
pub mod Unfolded
pub mod Open
