pub mod AnyState
pub mod Parts
pub mod Calls
