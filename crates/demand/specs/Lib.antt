pub mod Agree
pub mod Calls
pub mod Demand
