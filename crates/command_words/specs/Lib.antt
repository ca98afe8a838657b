pub mod Values
pub mod Program
pub mod Accepted
