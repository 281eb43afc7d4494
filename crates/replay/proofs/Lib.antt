pub mod Filled
pub mod Pairs
pub mod Zeros
pub mod Heads
