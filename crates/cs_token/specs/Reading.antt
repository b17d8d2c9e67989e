-- How the code reads tokens, step by step. Nothing here is promised by `tokens`.
pub mod Runs
pub mod Words
pub mod Signs
pub mod Written
pub mod Fronts
