-- Bridge to the code. What connects the definitions of this crate to its code.
pub mod FaultLists
pub mod LeastFaults
pub mod cycles
pub mod limits
pub mod names
pub mod numbers
pub mod tables
pub mod uses
