pub mod Merging
pub mod Unix
