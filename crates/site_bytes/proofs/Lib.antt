pub mod Stores
pub mod Numerals
