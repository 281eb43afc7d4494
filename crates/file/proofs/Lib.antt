pub mod Kept
pub mod Stored
