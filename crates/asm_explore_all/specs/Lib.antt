pub mod AllFacts
pub mod AllReport
pub mod AskedQuestions
pub mod DrawnGraphs
pub mod FindingLine
pub mod MadeFiles
pub mod code
