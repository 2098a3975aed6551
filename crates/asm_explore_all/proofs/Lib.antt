pub mod GrowingFiles
mod LeftFiles
mod DrawnFiles
mod PlainQuestions
