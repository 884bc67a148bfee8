pub mod Grammar
pub mod Gathered
