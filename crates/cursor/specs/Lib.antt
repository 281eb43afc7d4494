pub mod Onto
pub mod Writes
