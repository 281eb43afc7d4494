pub mod Shapes
pub mod Ahead
pub mod Follow
pub mod PrintedLeaves
pub mod PrintedTypes
pub mod PrintedComments
pub mod PrintedValues
pub mod PrintedFields
