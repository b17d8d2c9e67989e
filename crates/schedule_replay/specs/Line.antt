-- One browser and one circuit over a line that loses nothing and keeps the order.
pub mod State
pub mod Server
pub mod Lines
pub mod Steps
pub mod Transcript
pub mod InStep
pub mod Standing
