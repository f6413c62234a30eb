pub mod Windows
pub mod Runs
pub mod rules
pub mod state
