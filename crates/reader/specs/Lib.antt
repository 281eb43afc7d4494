pub mod Into
pub mod Gives
pub mod Refuses
