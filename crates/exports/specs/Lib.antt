pub mod Answers
pub mod Texts
pub mod Questions
pub mod Turns
pub mod Reaches
pub mod Version
