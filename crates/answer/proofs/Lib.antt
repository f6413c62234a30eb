pub mod Areas
pub mod Lined
pub mod Pairs
