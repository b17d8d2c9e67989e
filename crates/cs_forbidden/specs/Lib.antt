pub mod Roots
pub mod Trees
pub mod Forms
