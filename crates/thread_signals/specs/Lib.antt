pub mod Counts
pub mod SignalState
