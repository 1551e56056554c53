-- The lemmas of the crate.
pub mod Weighing
pub mod Opened
pub mod Scored
pub mod Recorded
pub mod Retrievable
pub mod Rounds
pub mod OneAnswer
