-- Bridge to the code. What connects the definitions of this crate to its code.
pub mod CodedConditions
pub mod TextPlaces
