pub mod Attributes
pub mod Made
pub mod Permutations
pub mod Focus
pub mod Edits
pub mod Batches
pub mod Counted
pub mod Shown
