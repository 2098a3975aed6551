pub mod Tree
pub mod CallsAndUses
pub mod SourceTree
pub mod PlainTree
pub mod Spellings
pub mod Tokens
pub mod Faults
pub mod code
