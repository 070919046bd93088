pub mod Queries
pub mod Calls
