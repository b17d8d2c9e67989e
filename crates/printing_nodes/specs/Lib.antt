pub mod AlikeNodes
pub mod Answers
