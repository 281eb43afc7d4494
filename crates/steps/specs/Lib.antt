pub mod Packed
pub mod Into
pub mod Reads
