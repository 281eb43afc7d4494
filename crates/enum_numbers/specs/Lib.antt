pub mod Numbering
pub mod Edges
pub mod Whole
