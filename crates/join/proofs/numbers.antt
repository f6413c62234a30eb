-- Laws that belong to no one function.
pub mod Lengths
pub mod Parts
pub mod Finding
pub mod Filling
pub mod Turns
pub mod News
