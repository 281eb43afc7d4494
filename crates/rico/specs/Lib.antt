pub mod Lines
pub mod Fields
pub mod Reading
