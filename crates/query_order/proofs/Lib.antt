pub mod Exchange
pub mod Arranged
