pub mod Replies
pub mod Kept
pub mod Parts
pub mod Standing
pub mod Acknowledging
