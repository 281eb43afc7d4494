pub mod Moves
pub mod Walk
pub mod Ancestors
