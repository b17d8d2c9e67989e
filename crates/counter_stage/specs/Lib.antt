pub mod Tree
pub mod Counter
pub mod Button
pub mod Laws
