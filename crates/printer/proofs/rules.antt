-- Rows that are computed.
pub mod Worked
