pub mod Rows
pub mod Tree
pub mod Sorted
pub mod Change
pub mod Facts
pub mod Insertion
pub mod Deletion
pub mod Regrading
