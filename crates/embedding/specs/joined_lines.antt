-- The printer's line for a question behind the words of a snapshot, and that a join keeps it: definitions and theorems, no functions.
pub mod Inputs
