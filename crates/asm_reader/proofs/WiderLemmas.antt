-- Free. Parts over larger parts are larger.
pub mod ItemWider
pub mod RuleWider
pub mod TermWider
pub mod WiderParts
