pub mod Copying
pub mod Layout
pub mod Refusal
