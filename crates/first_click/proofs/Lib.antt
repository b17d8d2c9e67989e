pub mod OptionLemmas
pub mod ListLemmas
pub mod Reading
pub mod FormLemmas
