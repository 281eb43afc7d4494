pub mod Print
pub mod Write
