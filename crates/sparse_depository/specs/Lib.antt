pub mod Book
pub mod Entries
pub mod EntriesLemmas
