pub mod Common
pub mod api
