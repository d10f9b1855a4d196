-- Definitions for the code's own parsers. No theorem on a test cites them.
pub mod Kinds
pub mod Digits
