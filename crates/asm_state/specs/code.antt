-- Bridge to the code. What connects the definitions of this crate to its code.
pub mod CodeLocations
pub mod Codes
pub mod ConsecutiveCodes
pub mod ConsecutiveLaws
pub mod Contents
pub mod FirstLocationLaws
pub mod FirstLocations
pub mod Layout
pub mod SignatureLaws
pub mod UniverseView
pub mod WordCodes
