-- Free. The law of choice.
pub mod FreeHasScript
pub mod ScriptedIsFree
pub mod Scripts
pub mod SpecificationRuns
pub mod UnrepeatedScripts
