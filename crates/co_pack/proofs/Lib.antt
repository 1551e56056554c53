-- The lemmas of the crate.
pub mod Placing
pub mod Keys
pub mod Packed
pub mod Inside
pub mod Sizes
pub mod Spelling
