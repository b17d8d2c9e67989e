pub mod Tags
pub mod Alone
