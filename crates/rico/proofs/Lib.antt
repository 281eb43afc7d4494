pub mod Alike
pub mod Lines
pub mod Fields
pub mod Reading
pub mod Cases
