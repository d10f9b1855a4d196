-- Lemmas that other crates use: the source test of a frame is well-formed.
pub mod Tests
