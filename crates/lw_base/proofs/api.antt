-- Lemmas for the proofs of other crates: on lists, tables, names, heads, runs and on clauses at early returns.
pub mod Returns
pub mod Lists
pub mod Members
pub mod Zips
pub mod Elements
pub mod SeenLists
pub mod SeenMembership
pub mod Tables
pub mod GrowingTables
pub mod Registers
pub mod Blanks
pub mod Formulas
pub mod WellFormedHeads
pub mod Replays
pub mod Writing
