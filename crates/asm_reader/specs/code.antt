-- Bridge to the code. What connects the definitions of this crate to its code.
pub mod LinesSaid
pub mod Parsing
pub mod PathNumbers
pub mod Reading
pub mod RuleReading
pub mod Steps
pub mod TermReading
pub mod ViewsOfParts
