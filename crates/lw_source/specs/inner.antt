-- Definitions for the reader of this crate. No public call cites them.
pub mod Operands
