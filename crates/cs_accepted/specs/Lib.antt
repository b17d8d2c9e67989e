pub mod Scopes
pub mod Accepted
pub mod Leaves
pub mod Sound
pub mod Bodies
pub mod Programs
