pub mod Steps
pub mod Keys
pub mod Switches
pub mod Draws
