-- Bridge to the code. What connects the definitions of this crate to its code.
pub mod BesideLaws
pub mod Intervals
pub mod MeantTrees
pub mod NestedPaths
pub mod OutcomesBeside
pub mod TermValues
pub mod TreeWeights
pub mod Weights
