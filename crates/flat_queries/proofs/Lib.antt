pub mod Blocks
pub mod Queries
pub mod Faithful
