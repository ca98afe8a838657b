pub mod NamesLemmas
pub mod StoreLemmas
pub mod StreamLemmas
pub mod WritingLemmas
