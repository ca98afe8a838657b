pub mod Output
pub mod Counting
pub mod Texts
