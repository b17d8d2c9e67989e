pub mod TextLemmas
pub mod ArgumentLemmas
pub mod PartLemmas
pub mod OutcomeLemmas
pub mod PaidLemmas
pub mod ChangeLemmas
