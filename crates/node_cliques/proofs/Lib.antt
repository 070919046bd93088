pub mod Fills
pub mod Labelling
