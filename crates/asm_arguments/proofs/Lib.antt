pub mod GivenNumbers
pub mod GivenValues
pub mod ReadNumbers
pub mod Rules
pub mod SignedTexts
