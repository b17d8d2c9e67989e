pub mod Agrees
pub mod Clashes
pub mod Run
pub mod Sections
