-- Bridge to the code. What connects the definitions of this crate to its code.
pub mod AndChains
pub mod Blocks
pub mod Evaluation
pub mod FormedOutcomes
pub mod FoundCandidates
pub mod FrameBindings
pub mod Frames
pub mod OneUpdate
pub mod OpenedPieces
pub mod Opening
pub mod PartSets
pub mod Pieces
pub mod Regions
pub mod ShownStates
pub mod ShownViews
