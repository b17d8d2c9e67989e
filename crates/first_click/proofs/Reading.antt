-- That a file is read as the first-click form says.
pub mod RunLemmas
pub mod WalkLemmas
pub mod PieceLemmas
pub mod TokenLemmas
pub mod NestingLemmas
pub mod MemberLemmas
pub mod ExpressionLaws
pub mod ExpressionSound
pub mod ExpressionComplete
pub mod StatementLemmas
pub mod ClosingLemmas
pub mod TrimLemmas
pub mod PartLemmas
pub mod ContentLemmas
pub mod FileNameLemmas
pub mod SpellingLemmas
pub mod WeightLemmas
