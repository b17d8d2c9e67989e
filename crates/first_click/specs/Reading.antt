-- How the code reads a file of the first-click form, step by step. Nothing here is promised.
pub mod Runs
pub mod Views
pub mod Cutting
pub mod Tokens
pub mod Members
pub mod Expressions
pub mod Statements
pub mod Code
pub mod Handlers
pub mod Content
