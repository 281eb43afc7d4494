pub mod Utf8Laws
pub mod Utf8Cases
