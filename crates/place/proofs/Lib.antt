pub mod WalkLaws
pub mod Cases
