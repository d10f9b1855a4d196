pub mod Common
mod IndexLemmas
mod SetLemmas
mod PackedCopies
mod PackedReads
mod PackedWrites
mod ProtocolInvariant
mod Start
