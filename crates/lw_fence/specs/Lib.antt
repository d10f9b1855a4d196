pub mod Fences
pub mod Compiling
pub mod Unfenced
pub mod Schedules
pub mod inner
