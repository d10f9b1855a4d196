-- Lemmas that other crates use: the x86 test of a frame is well-formed.
pub mod Tests
