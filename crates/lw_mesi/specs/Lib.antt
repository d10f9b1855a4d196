pub mod CacheLines
pub mod Snooping
pub mod Protocols
pub mod Coherence
pub mod inner
pub mod laws
