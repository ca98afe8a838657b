pub mod MutexMap
