pub mod Unique
pub mod ReportLaws
pub mod CallLaws
pub mod Refusals
pub mod ActLaws
pub mod MakeLaws
pub mod StepLaws
