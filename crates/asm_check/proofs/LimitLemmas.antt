-- Free. The limits of what a specification declares.
pub mod ArgumentCounts
pub mod CountedSizes
pub mod ElementCounts
pub mod LimitSteps
pub mod NoMoreElements
pub mod Sizes
pub mod SmallUniverses
pub mod Totals
pub mod UniverseSizes
