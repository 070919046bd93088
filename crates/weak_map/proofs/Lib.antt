pub mod Bares
pub mod Call
pub mod Ends
pub mod Tables
