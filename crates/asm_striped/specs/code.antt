-- Bridge to the code. What connects the definitions of this crate to its code.
pub mod Board
pub mod BoardLaws
pub mod Log
pub mod LogLaws
pub mod Seats
