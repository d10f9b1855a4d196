-- Proofs that a ghost field cites.
pub mod TokenKindProps
