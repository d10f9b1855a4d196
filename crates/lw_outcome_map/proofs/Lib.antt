pub mod SortedEntries
pub mod api
