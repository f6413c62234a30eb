pub mod Answers
pub mod Lined
pub mod Twice
pub mod counts
pub mod checked
pub mod any_answer
pub mod batch
pub mod asked
