mod AnswerLemmas
pub mod CalmLemmas
mod DeliveryLemmas
mod SoundLemmas
mod SumLemmas
mod TableLemmas
mod WordLemmas
