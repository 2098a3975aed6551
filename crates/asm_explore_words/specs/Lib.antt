pub mod CommandLine
pub mod UnshownRuns
pub mod WordsSaid
pub mod code
