pub mod Browser
pub mod Circuit
pub mod Rules
