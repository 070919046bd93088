pub mod Insertion
pub mod Places
pub mod Listed
