pub mod ConditionMap
