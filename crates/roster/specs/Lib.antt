pub mod Calls
pub mod Marks
