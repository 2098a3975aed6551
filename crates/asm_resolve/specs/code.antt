-- Bridge to the code. What connects the definitions of this crate to its code.
pub mod FunctionCodes
pub mod ResolvedRules
pub mod ResolvedTerms
pub mod ResolvingLaws
pub mod RuleScopes
pub mod Scopes
pub mod Slots
