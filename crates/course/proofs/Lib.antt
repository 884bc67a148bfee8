pub mod StandLaws
pub mod JudgeLaws
pub mod AgainLaws
pub mod NextLaws
