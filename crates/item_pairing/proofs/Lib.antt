pub mod LabelLemmas
pub mod FoundLemmas
pub mod SlotLemmas
pub mod CountLemmas
