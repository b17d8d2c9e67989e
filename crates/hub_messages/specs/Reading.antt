-- How the code reads messages, step by step.
pub mod Faults
pub mod Fields
pub mod Codes
pub mod Messages
