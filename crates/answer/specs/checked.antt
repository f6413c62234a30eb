pub mod Questioned
pub mod Lines
