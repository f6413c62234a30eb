-- Rows that are computed, a law of exits, and names that are equal.
pub mod Refused
pub mod Exits
pub mod Names
