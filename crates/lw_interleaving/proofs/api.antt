-- Lemmas for the proofs of other crates: runs of source tests, and commuting steps.
pub mod Runs
pub mod Commutation
