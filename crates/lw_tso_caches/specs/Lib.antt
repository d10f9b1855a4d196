pub mod OverCaches
pub mod CompleteLists
