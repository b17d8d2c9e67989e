pub mod FrontLemmas
pub mod ScopeLemmas
pub mod WholeLemmas
