pub mod AnswerLemmas
pub mod CountLemmas
pub mod FocusLemmas
pub mod EditLemmas
pub mod TreeLemmas
pub mod Depths
pub mod ShownLemmas
