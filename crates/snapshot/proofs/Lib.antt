-- Rows that are computed.
pub mod Answers
-- Laws that belong to no one function.
pub mod Laws
pub mod KindLaws
