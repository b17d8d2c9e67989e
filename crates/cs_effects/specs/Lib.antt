pub mod Deeds
pub mod Effects
pub mod Spreading
