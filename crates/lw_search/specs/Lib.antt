pub mod Reachability
pub mod inner
