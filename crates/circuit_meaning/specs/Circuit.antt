-- The server's end of a circuit, over any stage.
pub mod State
pub mod Batches
pub mod Steps
pub mod Runs
