-- Rows that are computed.
pub mod Answers
pub mod Worked
pub mod Lists
pub mod Reached
pub mod Arrives
pub mod Least
pub mod Plenty
pub mod Private
pub mod Opinion
pub mod Queue
pub mod Lookups
