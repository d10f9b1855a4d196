-- Lemmas that other crates use: indices in orders, what swaps preserve, completeness of the orders, lists of pairs with the same closure,
-- and the unordered conflicts.
pub mod Indices
pub mod SwapInvariance
pub mod Complete
pub mod Closure
pub mod UnorderedPairs
