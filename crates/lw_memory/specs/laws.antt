-- Proofs that an impl cites.
pub mod FlatLaws
