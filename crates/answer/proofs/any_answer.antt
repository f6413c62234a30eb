pub mod Laws
-- Rows that are computed.
pub mod Worked
