pub mod DeleteLaws
pub mod MendLaws
pub mod ClimbLaws
pub mod DeleteLawsLeaf
