pub mod Parts
pub mod Statements
