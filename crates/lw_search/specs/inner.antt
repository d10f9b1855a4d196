-- Definitions for the code's own search. No public call cites them.
pub mod ThreadStates
pub mod InvisibleEvents
pub mod Accesses
pub mod StateKeys
pub mod Invariant
pub mod ObservedStates
pub mod Transitions
