pub mod Chains
pub mod Rings
pub mod Stacking
pub mod Waiting
