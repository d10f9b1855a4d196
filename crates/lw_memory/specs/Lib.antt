pub mod Content
pub mod Memory
pub mod SystemLaws
pub mod Flat
pub mod laws
