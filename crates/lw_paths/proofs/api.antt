-- Lemmas that other crates use: members of the lists of path assignments and items, their indices and pairs, and successors of statements.
pub mod Members
pub mod Successors
pub mod Enumerated
pub mod Visitable
pub mod PairRanges
pub mod Numbering
pub mod PreservedPairs
pub mod PreservedOrder
pub mod ReducedPairs
pub mod Reduced
pub mod ConflictSymmetry
pub mod Totals
pub mod Counting
