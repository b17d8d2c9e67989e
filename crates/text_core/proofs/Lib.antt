pub mod TextLemmas
pub mod DecimalLemmas
pub mod LengthGroupLemmas
pub mod TextByteLemmas
pub mod WordLemmas
