-- Free. Parts beside each other.
pub mod ExhaustedLaws
pub mod ExhaustedPaths
pub mod GroupsBeside
pub mod OutcomesBeside
pub mod PartsBeside
