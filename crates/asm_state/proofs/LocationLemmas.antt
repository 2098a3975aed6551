-- Free. The locations of a signature and their numbers.
pub mod FirstLocations
pub mod FunctionOfLocation
pub mod LocationIndices
pub mod LocationOrder
pub mod NumberedLocations
