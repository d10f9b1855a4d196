-- What proofs of other crates cite: that a test can start over caches that hold nothing.
pub mod Starts
pub mod CompleteLists
