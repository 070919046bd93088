pub mod Nodes
pub mod Links
