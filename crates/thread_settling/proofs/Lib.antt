pub mod Threads
pub mod Stores
pub mod Loops
