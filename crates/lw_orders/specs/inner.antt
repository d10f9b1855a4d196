-- Definitions for the code's own search. No public call cites them.
pub mod Sets
pub mod Search
pub mod Closure
pub mod Remaining
pub mod TriedOrientations
pub mod Candidates
