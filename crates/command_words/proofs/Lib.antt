pub mod ProgramLemmas
pub mod ValueLemmas
pub mod Examples
