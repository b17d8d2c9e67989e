pub mod Agrees
pub mod Views
pub mod Steps
pub mod Comparing
