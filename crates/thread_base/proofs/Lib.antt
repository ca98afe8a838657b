pub mod MapLemmas
pub mod OrderLemmas
pub mod PriorityLemmas
pub mod SearchLemmas
pub mod ReachLemmas
pub mod SetLemmas
