pub mod Roots
pub mod Calls
