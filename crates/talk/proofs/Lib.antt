pub mod SplitLaws
pub mod LengthLaws
pub mod Going
pub mod Obeying
pub mod Whole
pub mod Examples
pub mod OneEach
