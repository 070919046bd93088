pub mod Premises
pub mod Fronts
