pub mod ListedLemmas
pub mod StayingLemmas
pub mod WithoutLemmas
