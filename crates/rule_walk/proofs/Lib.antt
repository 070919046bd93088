pub mod Steps
pub mod Sweeps
