-- Free. The entries of tables.
pub mod BadEntries
pub mod EntryArguments
pub mod TableValues
