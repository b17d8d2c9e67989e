pub mod Nodes
pub mod Reading
pub mod Turning
pub mod Machine
