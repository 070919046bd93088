pub mod Answers
pub mod Fits
pub mod Parts
pub mod Reports
