pub mod OptionLemmas
pub mod FieldLemmas
pub mod CodeLemmas
pub mod UpLemmas
pub mod DownLemmas
pub mod SizeLemmas
