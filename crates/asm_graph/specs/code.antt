-- Bridge to the code. What connects the definitions of this crate to its code.
pub mod DrawnArrows
pub mod EdgeMarks
pub mod GraphSoFar
pub mod ResolvedMachines
pub mod ShownLocations
pub mod WaySoFar
