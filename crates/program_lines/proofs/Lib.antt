pub mod AlikeLemmas
pub mod AnswerLemmas
