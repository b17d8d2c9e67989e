pub mod First
pub mod Tried
pub mod Alone
