pub mod LevelLemmas
pub mod RankLemmas
pub mod ReadyLemmas
