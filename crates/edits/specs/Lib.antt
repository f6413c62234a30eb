pub mod Edits
pub mod Runs
