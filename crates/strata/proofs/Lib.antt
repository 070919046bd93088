pub mod Closing
pub mod Passes
