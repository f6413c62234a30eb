pub mod Any
pub mod Outcomes
