pub mod Priorities
pub mod Stored
