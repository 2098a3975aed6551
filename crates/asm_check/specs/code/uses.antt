-- Bridge to the code. The uses of names, and what is wrong with them; main rules.
pub mod MainRules
pub mod RulesWithResult
pub mod TermFaultLists
pub mod UseCollector
pub mod UseViews
