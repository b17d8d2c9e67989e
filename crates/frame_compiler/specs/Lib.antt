pub mod Compiles
pub mod Programs
pub mod Answers
