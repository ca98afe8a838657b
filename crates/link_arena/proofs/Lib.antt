mod ChangeLemmas
pub mod ChoiceLemmas
pub mod KeptLemmas
mod LinkLemmas
pub mod ListLemmas
mod RingLemmas
pub mod StackLemmas
mod UnlinkLemmas
pub mod WaitingLemmas
