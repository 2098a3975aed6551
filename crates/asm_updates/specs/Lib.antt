pub mod Faults
pub mod code
