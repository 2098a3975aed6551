pub mod CodeForms
pub mod RuleForms
pub mod SharedCodes
pub mod RuleStories
