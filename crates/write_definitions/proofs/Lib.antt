pub mod Shapes
pub mod KindNumbers
pub mod PrintedFunctions
pub mod PrintedDefinitions
