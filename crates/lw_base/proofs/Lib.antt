pub mod Common
pub mod api
mod Schedules
mod EventTexts
mod WrittenSchedules
mod Shapes
mod Conditions
