pub mod BadDrafts
pub mod DrawnNumbers
pub mod DrawnTexts
pub mod FineRuns
pub mod RandomResults
pub mod code
