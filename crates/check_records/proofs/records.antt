-- Laws that belong to no one function.
pub mod Steps
pub mod Linked
