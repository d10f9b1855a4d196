-- Definitions for the code of packed cache lines. No public call cites them.
pub mod EachIndex
pub mod Packed
