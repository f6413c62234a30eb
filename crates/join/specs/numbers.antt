pub mod Parts
pub mod Numbered
