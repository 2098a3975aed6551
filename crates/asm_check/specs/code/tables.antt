-- Bridge to the code. The entries of tables.
pub mod EntryArguments
