-- A snapshot's words with one crate's import records put in place of those that it had: definitions and theorems, no functions.
pub mod Words
