pub mod Ranges
pub mod Room
