pub mod Insertion
pub mod Deletion
pub mod Regrading
pub mod Held
