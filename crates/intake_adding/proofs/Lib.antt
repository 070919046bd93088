pub mod Quick
pub mod Held
pub mod Adding
