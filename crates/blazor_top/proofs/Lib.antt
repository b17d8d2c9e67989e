pub mod CommandLemmas
pub mod PlaceLemmas
pub mod StopLemmas
pub mod ReplyLemmas
pub mod WritingLemmas
pub mod CheckingLemmas
pub mod AskingLemmas
pub mod EndingLemmas
