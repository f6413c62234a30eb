pub mod Chaining
pub mod Halving
pub mod Keying
pub mod Ranging
