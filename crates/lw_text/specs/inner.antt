-- Definitions for the parser within the crate. No public call cites them.
pub mod Terminals
pub mod ReaderStates
pub mod Resolved
pub mod Parsed
