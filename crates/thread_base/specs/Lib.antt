pub mod Numbers
pub mod Maps
pub mod Orders
pub mod Priority
pub mod Holders
pub mod Objects
pub mod Actions
pub mod Deliveries
