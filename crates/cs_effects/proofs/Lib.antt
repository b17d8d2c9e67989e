pub mod DeedLaws
pub mod Spreads
