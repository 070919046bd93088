pub mod Weighing
pub mod Renewing
pub mod Anew
