-- Bridge to the code. What connects the definitions of this crate to its code.
pub mod ChoiceTexts
pub mod Commas
pub mod Extents
pub mod JsonParts
pub mod Layouts
pub mod RunsSaid
pub mod StepsMade
