pub mod Loop
pub mod Taken
pub mod Anchor
pub mod Fuel
pub mod Sharp
pub mod Lists
