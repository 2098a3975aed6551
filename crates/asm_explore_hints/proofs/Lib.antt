mod DeclaredSteps
mod EditedWords
