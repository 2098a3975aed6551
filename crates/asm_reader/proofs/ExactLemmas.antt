-- Free. Readers that are exact for their parts of the grammar.
pub mod Blocks
pub mod Chains
pub mod Choices
pub mod ContentExact
pub mod EnclosedReaders
pub mod ExactTokens
pub mod ItemExact
pub mod Readers
pub mod RuleExact
pub mod TermExact
