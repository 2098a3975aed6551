pub mod DrawnScripts
pub mod RandomFacts
pub mod RandomReport
pub mod code
