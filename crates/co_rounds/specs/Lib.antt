-- The definitions that the contracts of the crates above cite.
pub mod Serving
pub mod Answers
pub mod Honest
pub mod Plans
pub mod Asked
pub mod Scoring
pub mod Placing
pub mod Recording
pub mod Retrieving
