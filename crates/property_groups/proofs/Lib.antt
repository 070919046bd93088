pub mod Entries
pub mod Steps
pub mod Places
pub mod Ends
