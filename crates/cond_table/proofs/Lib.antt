pub mod ConditionLemmas
