-- Free. Declared names, and the tables in which they are found.
pub mod DeclarationsGathered
pub mod DeclaredBytes
pub mod DeclaredOnce
pub mod EachNameOnce
pub mod FirstDeclarations
pub mod FirstOfName
pub mod Introduced
pub mod ItemLists
pub mod ListedDeclarations
pub mod Lookups
pub mod NamedTexts
pub mod RepeatedNames
pub mod RepeatedParameters
pub mod TableSteps
