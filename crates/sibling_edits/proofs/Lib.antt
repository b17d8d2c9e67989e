pub mod ReverseLemmas
pub mod NoneLemmas
pub mod TurnLemmas
pub mod HeldLemmas
pub mod OnceLemmas
pub mod MoveLemmas
pub mod PlanLemmas
pub mod TallyLemmas
