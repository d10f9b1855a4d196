-- Lemmas for the proofs of other crates: strictly sorted lists of outcomes.
pub mod Listings
