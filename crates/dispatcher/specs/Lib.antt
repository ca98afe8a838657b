pub mod Arriving
pub mod Delivering
pub mod Ticking
