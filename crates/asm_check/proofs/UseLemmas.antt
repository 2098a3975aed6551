-- Free. The uses of names, and what is wrong with them; main rules.
pub mod CollectorSteps
pub mod FaultlessUses
pub mod Fit
pub mod FitScopes
pub mod FitTerms
pub mod MainRuleFaults
pub mod NumbersInTerms
pub mod ResultCallsAlike
pub mod RulesWithResult
pub mod Scopes
pub mod TermFaults
pub mod TextsInSets
pub mod UseFaults
pub mod UsesCollected
