pub mod PrintedTerms
pub mod Parts
pub mod Because
pub mod DecidingLaws
pub mod code
