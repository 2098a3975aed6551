pub mod BoundFrames
pub mod Deciding
pub mod Lists
pub mod PrintedTexts
pub mod ReadTexts
pub mod TruthValues
