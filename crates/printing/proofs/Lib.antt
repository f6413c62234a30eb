pub mod Answers
pub mod Laws
