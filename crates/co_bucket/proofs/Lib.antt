-- The lemmas of the crate.
pub mod Reaching
pub mod Exploring
pub mod Stuck
pub mod Lowering
pub mod Narrowing
pub mod Stepping
pub mod Counting
pub mod OneAnswer
pub mod Standing
