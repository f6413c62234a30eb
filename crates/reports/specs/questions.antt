pub mod Questions
pub mod Fits
