mod TableLemmas
mod ChainLemmas
mod SetLemmas
mod RaiseLemmas
mod SettleLemmas
mod GiveLemmas
mod ChangeLemmas
pub mod AfterLemmas
mod MirrorLemmas
