-- Rows that are computed.
pub mod Worked
pub mod Listed
pub mod import_words
