pub mod Threads
pub mod Calls
