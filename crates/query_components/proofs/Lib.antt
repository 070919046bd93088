pub mod Parts
pub mod TwoParts
