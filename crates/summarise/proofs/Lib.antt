pub mod Moved
pub mod Answers
