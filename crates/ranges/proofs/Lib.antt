pub mod Held
pub mod Names
pub mod Rows
pub mod Claims
pub mod Tables
pub mod Excludes
