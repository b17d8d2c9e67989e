pub mod Batch
pub mod EditTypes
