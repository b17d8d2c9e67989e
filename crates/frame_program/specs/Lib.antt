pub mod Fragments
pub mod Operations
pub mod Frames
