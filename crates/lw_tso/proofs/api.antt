-- Lemmas that other crates use: the effects of operations and of events over flat memory, runs can be completed, independent events
-- commute, runs over every memory are those over flat memory, what a replay mentions, and fences only remove outcomes.
pub mod Operations
pub mod Effects
pub mod Neighbours
pub mod Endings
pub mod FlatSimulation
pub mod Fencing
pub mod FenceRemoval
pub mod FewerFences
pub mod Replaying
