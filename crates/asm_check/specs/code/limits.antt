-- Bridge to the code. The limits of what a specification declares.
pub mod CountedSizes
