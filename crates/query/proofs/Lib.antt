pub mod Steps
pub mod Exact
pub mod Carried
pub mod Retired
