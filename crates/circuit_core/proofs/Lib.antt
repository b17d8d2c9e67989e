pub mod MakingLemmas
pub mod TakingLemmas
pub mod StepLemmas
pub mod RunLemmas
pub mod CalmLemmas
