pub mod Rows
pub mod Plain
