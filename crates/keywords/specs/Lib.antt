pub mod Keywords
pub mod Editions
