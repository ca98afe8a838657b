pub mod MutexLemmas
pub mod WaitLemmas
pub mod WakeLemmas
