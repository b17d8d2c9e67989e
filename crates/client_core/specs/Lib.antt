pub mod EventSize
pub mod Pieces
pub mod Standing
