-- Free. Texts that grow piece by piece.
pub mod Appending
pub mod ArgumentTexts
pub mod GrowingTexts
pub mod KeptTexts
pub mod KnownTexts
pub mod SortedLines
pub mod StepText
pub mod TextsByNumber
