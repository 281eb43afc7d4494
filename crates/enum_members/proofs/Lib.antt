pub mod WalkLaws
pub mod Meant
pub mod Chain
