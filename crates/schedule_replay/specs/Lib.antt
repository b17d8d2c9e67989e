pub mod Every
pub mod Line
pub mod Reading
pub mod Schedule
pub mod Texts
