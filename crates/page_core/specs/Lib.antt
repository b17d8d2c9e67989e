pub mod ByName
pub mod Escapes
pub mod Path
pub mod Print
pub mod Void
