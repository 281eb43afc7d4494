pub mod Meant
pub mod Cases
