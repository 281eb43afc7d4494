pub mod Takes
pub mod Fueled
