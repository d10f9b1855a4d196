pub mod Common
pub mod SearchedLists
