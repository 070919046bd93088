pub mod Text
pub mod Reading
pub mod Writing
pub mod Printing
pub mod Answers
pub mod Example
