pub mod api
pub mod SourceLaws
