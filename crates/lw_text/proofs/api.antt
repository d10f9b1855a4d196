-- Lemmas that other crates use.
pub mod Numbers
pub mod Places
pub mod Indices
pub mod PropositionNodes
pub mod CellTokens
pub mod Spelling
pub mod PrintedPropositions
pub mod ConditionTokens
pub mod PrintedConditions
pub mod Frames
