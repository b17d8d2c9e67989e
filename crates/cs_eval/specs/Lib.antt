pub mod Agrees
pub mod Run
pub mod Changes
