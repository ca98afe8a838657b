pub mod Loops
pub mod TextLemmas
