pub mod Common
pub mod api
mod Newest
mod Acts
mod EventActs
mod Rooms
mod Events
mod Starts
mod Flatten
mod Commuting
mod Refilled
mod LockedSteps
mod IntoPhases
mod FromPhases
