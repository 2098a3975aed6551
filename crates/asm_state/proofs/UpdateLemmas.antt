-- Free. Update sets.
pub mod Faults
pub mod Members
pub mod Ranges
pub mod Summaries
pub mod UnionsAndMerges
pub mod Updates
