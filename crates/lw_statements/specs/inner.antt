-- Definitions for the code's own readers of cells. No other crate names them.
pub mod Tokens
pub mod Drafts
pub mod Reading
