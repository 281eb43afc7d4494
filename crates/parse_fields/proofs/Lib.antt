pub mod Bytes
pub mod Forms
pub mod KindTests
pub mod MeantFields
pub mod Quiet
