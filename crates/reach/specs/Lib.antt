pub mod Reached
pub mod parts
pub mod unchecked
