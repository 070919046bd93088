pub mod Parts
pub mod Offers
pub mod Collecting
