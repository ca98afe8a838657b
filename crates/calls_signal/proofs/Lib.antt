pub mod BeginLemmas
pub mod SignalLemmas
