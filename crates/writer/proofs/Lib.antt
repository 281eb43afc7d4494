pub mod Cases
pub mod Toks
pub mod Lexes
pub mod Apart
pub mod Back
pub mod Places
pub mod Said
