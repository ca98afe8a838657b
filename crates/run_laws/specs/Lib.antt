pub mod Ledger
pub mod LedgerExamples
pub mod Course
pub mod CourseExamples
pub mod MoveWeights
pub mod WeightExamples
