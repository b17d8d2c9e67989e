pub mod Options
pub mod Reading
pub mod Screen
pub mod Spelling
pub mod Stage
