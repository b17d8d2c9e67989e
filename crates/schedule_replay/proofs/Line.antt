-- The line keeps its browser in step with its circuit.
pub mod EveryLemmas
pub mod RowLemmas
pub mod CircuitLemmas
pub mod BrowserLemmas
pub mod InStepLemmas
pub mod ZipLemmas
pub mod StandingLemmas
pub mod ReplyLemmas
pub mod ServerLemmas
pub mod FlowLemmas
pub mod LeadLemmas
pub mod TurnLemmas
