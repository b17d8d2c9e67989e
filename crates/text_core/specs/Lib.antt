pub mod Ascii
pub mod Decimal
pub mod LengthGroups
pub mod Standing
pub mod TextBytes
pub mod Words
