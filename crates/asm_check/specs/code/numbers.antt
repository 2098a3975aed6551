-- Bridge to the code. The numbers of what is declared, and the signature.
pub mod ItemLists
pub mod NumberTables
