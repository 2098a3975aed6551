-- Bridge to the code. What connects the definitions of this crate to its code.
pub mod CodedParts
pub mod CodedTerms
pub mod PartWeights
