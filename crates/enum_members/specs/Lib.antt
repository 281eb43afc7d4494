pub mod Numbers
pub mod Walk
pub mod Walks
