pub mod Status
pub mod Words
