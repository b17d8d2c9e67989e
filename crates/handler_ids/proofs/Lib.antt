pub mod KeptLemmas
pub mod CallLemmas
