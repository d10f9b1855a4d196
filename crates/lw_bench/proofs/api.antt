-- Lemmas that other crates use: when entries are the list of a test.
pub mod TestLists
