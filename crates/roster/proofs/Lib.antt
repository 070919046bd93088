pub mod Marking
pub mod Own
