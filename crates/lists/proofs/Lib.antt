pub mod Codes
pub mod Derived
pub mod Compare
pub mod Places
pub mod Search
pub mod Fronts
