pub mod Grammar
pub mod Examples
pub mod Ending
pub mod WordLaws
pub mod DigitLaws
pub mod NumberLaws
pub mod LaidLaws
pub mod Decimals
