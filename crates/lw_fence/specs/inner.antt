-- Definitions for the compiler's own pass over a thread. No public call cites them.
pub mod Marks
