-- Runs that are computed.
pub mod Answers
pub mod Worked
pub mod Laws
pub mod Kept
pub mod Served
pub mod rules
