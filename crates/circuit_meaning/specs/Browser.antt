-- The browser's end of a circuit, over any meaning of batches.
pub mod State
pub mod Greeting
pub mod Receives
pub mod Asks
pub mod Bytes
