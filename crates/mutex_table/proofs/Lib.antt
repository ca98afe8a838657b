pub mod MutexLemmas
