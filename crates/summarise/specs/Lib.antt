pub mod Condensed
