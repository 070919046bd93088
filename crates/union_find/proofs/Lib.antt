pub mod Laws
pub mod Steps
pub mod Classes
pub mod Unions
