pub mod Tables
pub mod Bounds
pub mod Theorems
pub mod SmallSites
