-- Bridge to the code. What connects the definitions of this crate to its code.
pub mod BoundValues
pub mod CodeRanges
pub mod CodeTree
pub mod CodeViews
pub mod Powers
pub mod Readings
pub mod RuleMeaning
pub mod RuleStories
pub mod RuleTree
pub mod RuleViews
pub mod Sizes
pub mod SoundCodes
