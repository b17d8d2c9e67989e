pub mod SequenceLemmas
pub mod SectionLemmas
pub mod TurnLemmas
pub mod FaultLemmas
pub mod KeyLemmas
