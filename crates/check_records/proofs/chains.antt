-- Rows that are computed.
pub mod Computed
-- Laws that belong to no one function.
pub mod Laws
