-- How messages stand in bytes, version 1.
pub mod Fields
pub mod Codes
pub mod Messages
pub mod Spells
