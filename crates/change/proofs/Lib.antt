pub mod SmallRows
pub mod HeldLaws
pub mod NeedLaws
pub mod AppliedLaws
pub mod RuleLaws
