-- Bridge to the code. What connects the definitions of this crate to its code.
pub mod Exclusion
pub mod Hands
pub mod KeptTexts
pub mod PartTexts
pub mod RefusedRuns
pub mod Rounds
pub mod RunSoFar
pub mod Step
pub mod Traces
pub mod WrittenEntries
