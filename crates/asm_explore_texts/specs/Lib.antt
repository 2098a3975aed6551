pub mod Comments
pub mod Conditions
pub mod Places
pub mod Positions
pub mod RefusedTexts
pub mod RunNumbers
pub mod code
