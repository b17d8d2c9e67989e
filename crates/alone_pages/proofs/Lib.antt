pub mod Tags
pub mod Members
pub mod Parts
pub mod Pages
