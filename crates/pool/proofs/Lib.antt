pub mod FreeLaws
pub mod FreshLaws
pub mod StretchLaws
pub mod WriteLaws
pub mod LyingLaws
pub mod PagesLaws
