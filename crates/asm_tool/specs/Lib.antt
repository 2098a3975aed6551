pub mod CommandLine
pub mod WordsSaid
pub mod ToolPromises
pub mod Statuses
