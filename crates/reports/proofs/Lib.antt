pub mod Answers
pub mod Laws
pub mod Exact
