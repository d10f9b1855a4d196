-- Lemmas that other crates use.
pub mod Zips
pub mod Faults
pub mod Forms
pub mod Tests
pub mod Greater
