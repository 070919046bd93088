pub mod NoneMeansNone
pub mod Routes
pub mod Slots
pub mod Lines
pub mod Printed
pub mod Feeds
pub mod Loaded
pub mod Demands
