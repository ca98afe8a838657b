pub mod WordLemmas
pub mod Built
pub mod FailureLines
pub mod PlaceLines
pub mod Faults
