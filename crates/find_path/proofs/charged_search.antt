pub mod Parts
pub mod Holding
pub mod Runs
