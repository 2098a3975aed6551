-- Bridge to the code. What connects the definitions of this crate to its code.
pub mod EntryLists
pub mod Faults
pub mod IndexedRanges
pub mod Positions
pub mod StandingLaws
pub mod Stands
pub mod SummaryRanges
pub mod Unions
pub mod UnitedLaws
