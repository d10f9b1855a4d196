-- Definitions for the code's own contracts. No public call cites them.
pub mod Codes
pub mod Collected
pub mod Listed
pub mod SourceRunners
