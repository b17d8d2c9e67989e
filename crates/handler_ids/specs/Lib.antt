pub mod History
pub mod What
pub mod Kept
pub mod Naming
pub mod Calls
