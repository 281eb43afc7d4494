pub mod DigitLaws
pub mod Bits
