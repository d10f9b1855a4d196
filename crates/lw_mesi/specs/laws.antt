-- Proofs that an impl cites.
pub mod Coherent
pub mod Cases
pub mod ProtocolCases
pub mod ProtocolLaws
