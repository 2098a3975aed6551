-- Free. The grammars from before: what spelled something still does.
pub mod OldScripts
pub mod OldTexts
pub mod OldTokens
