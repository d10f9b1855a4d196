-- Definitions for the code's own writers of lines. No public call cites them.
pub mod UnsortedStates
pub mod Labels
