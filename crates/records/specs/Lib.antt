pub mod Table
pub mod Each
pub mod Siblings
