-- What a path means, read from a module of a snapshot: definitions and rows, no functions.
pub mod Reads
