-- The definitions that the contracts of the crate cite.
pub mod Lists
pub mod Rows
pub mod Bytes
pub mod Filling
pub mod Placement
pub mod Refusal
pub mod Reached
pub mod Found
pub mod Lowering
