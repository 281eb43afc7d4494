pub mod Bytes
pub mod Forms
pub mod KindTests
pub mod MeantTypes
pub mod MeantValues
pub mod Quiet
