pub mod NameLemmas
pub mod FrontLemmas
pub mod CallLemmas
pub mod ComparingLemmas
