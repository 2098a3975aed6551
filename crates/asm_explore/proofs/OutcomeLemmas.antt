-- Free. The outcomes of a rule through all scripts.
pub mod Chains
pub mod ChoiceLawOfLists
pub mod ChoiceLists
pub mod Choiceless
pub mod FullLists
pub mod LeadingOutcomes
pub mod ListLemmas
pub mod ListedRules
pub mod MarkedSets
pub mod OverLimit
pub mod RefusedParts
pub mod RuleOutcomes
pub mod SameSets
pub mod SequenceOutcomes
