-- Bridge to the code. What connects the definitions of this crate to its code.
pub mod Fronts
pub mod Keys
pub mod Lexing
pub mod ViewCases
pub mod Views
