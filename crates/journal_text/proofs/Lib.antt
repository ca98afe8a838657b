pub mod Digits
pub mod Parts
pub mod Cuts
pub mod Events
pub mod Follows
pub mod SpelledLaw
pub mod ReadAgainLaw
pub mod FormsLaw
