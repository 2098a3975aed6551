-- Bridge to the code. Declared names, and the tables in which they are found.
pub mod Gathering
pub mod NameHash
pub mod Tables
pub mod TextKeys
