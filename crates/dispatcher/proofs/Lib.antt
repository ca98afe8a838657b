pub mod ArrivalLemmas
pub mod TakeLemmas
pub mod WaitLemmas
pub mod DeliverLemmas
pub mod TickLemmas
pub mod TickNotes
