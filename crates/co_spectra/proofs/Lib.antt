pub mod Agreeing
pub mod Adding
mod Ones
