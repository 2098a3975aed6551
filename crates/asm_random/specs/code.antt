-- Bridge to the code. What connects the definitions of this crate to its code.
pub mod Drafts
pub mod DraftSteps
pub mod DrawnSteps
pub mod FaultKinds
pub mod WrongSteps
pub mod ResolvedRuns
pub mod ShorterRuns
