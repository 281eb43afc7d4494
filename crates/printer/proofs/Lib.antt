pub mod Whole
pub mod Meant
