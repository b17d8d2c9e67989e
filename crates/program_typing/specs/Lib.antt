pub mod Programs
pub mod Tags
