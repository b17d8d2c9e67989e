pub mod Forms
pub mod Taken
pub mod Shapes
pub mod Views
pub mod Circles
