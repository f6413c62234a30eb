pub mod Entries
pub mod Edits
pub mod Written
