pub mod Beginnings
pub mod NearWords
pub mod code
