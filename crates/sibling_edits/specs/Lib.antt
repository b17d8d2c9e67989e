pub mod Matched
pub mod Plan
