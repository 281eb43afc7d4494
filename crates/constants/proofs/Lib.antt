pub mod Shapes
pub mod Parts
pub mod Exactly
pub mod Smallest
pub mod Tokens
pub mod Whole
