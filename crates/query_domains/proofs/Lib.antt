pub mod Fills
pub mod Marks
pub mod Supports
pub mod Sweeps
