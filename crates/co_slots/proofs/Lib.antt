pub mod Exponents
pub mod Recovering
pub mod Placing
pub mod Interpolated
pub mod Slotwise
pub mod Spelling
