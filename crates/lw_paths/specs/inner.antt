-- Definitions for the code's own parts. No public call cites them.
pub mod Accesses
pub mod Sizes
pub mod Few
pub mod Visiting
