pub mod Parts
pub mod ValueTexts
pub mod Quotes
pub mod Attributes
pub mod Nodes
pub mod Components
