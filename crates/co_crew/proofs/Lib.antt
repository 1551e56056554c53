pub mod Parts
pub mod Crews
pub mod Orders
pub mod Unit_sums
pub mod Adding
