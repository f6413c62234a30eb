pub mod Answers
pub mod Worked
pub mod laws
