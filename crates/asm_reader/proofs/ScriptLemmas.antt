-- Free. Scripts: the lines of their texts.
pub mod EachScript
pub mod Fields
pub mod FirstFaults
pub mod FoundLines
pub mod MoreLines
pub mod PathParts
pub mod SaidLines
pub mod Sizes
