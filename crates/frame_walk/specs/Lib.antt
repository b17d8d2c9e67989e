pub mod Ids
pub mod Keeping
pub mod Told
