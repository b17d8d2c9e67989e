pub mod Tokens
pub mod Tables
pub mod Types
pub mod Expressions
pub mod Statements
pub mod Lambdas
pub mod Members
pub mod Nesting
