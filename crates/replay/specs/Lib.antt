pub mod Findings
pub mod List
pub mod Pair
