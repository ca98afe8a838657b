pub mod Engine
pub mod Turns
pub mod Advancing
pub mod Whole
