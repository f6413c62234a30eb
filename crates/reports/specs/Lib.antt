pub mod Outcomes
pub mod Written
pub mod questions
