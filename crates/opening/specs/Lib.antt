pub mod Opening
pub mod Marks
