mod Exclusion
mod FirstTokens
pub mod LocationFunctions
mod RunSoFar
pub mod EndTexts
pub mod StepEnds
pub mod ProperLocations
mod RunOrRefusal
mod Traces
pub mod RunOfTexts
pub mod Ends
pub mod TextLemmas
pub mod RoundLemmas
