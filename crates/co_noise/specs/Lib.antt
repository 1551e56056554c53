pub mod Limits
pub mod Shapes
pub mod Bounds
pub use Rattle.co_math.specs.Parameters
