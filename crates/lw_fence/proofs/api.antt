-- What proofs of other crates cite: that a well-scoped source has one compiled program, and which outcomes that has, with its
-- fences, with others or without.
pub mod Compilations
