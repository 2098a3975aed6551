pub mod Appending
pub mod Options
pub mod ToolPromises
pub mod StatusTells
pub mod WorkedWords
