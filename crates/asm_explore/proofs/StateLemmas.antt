-- Free. The states that a search has reached.
pub mod AddedNodes
pub mod Batches
pub mod Bytes
pub mod FreeSlots
pub mod IndexedNodes
pub mod LastStates
pub mod LookedStates
pub mod MoreNodes
pub mod OwnStates
pub mod PackedNodes
pub mod QuietNodes
pub mod RunsAlongChoices
pub mod RunsThroughKnown
pub mod RunsToNodes
pub mod SameRuns
