pub mod Common
pub mod api
mod Once
mod FlatMaps
mod Drains
mod Along
mod Sizes
mod AccessPairs
mod Pushed
mod FewItems
mod FewOrders
