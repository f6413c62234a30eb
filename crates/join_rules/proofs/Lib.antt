-- Laws that belong to no one function.
pub mod Answers
pub mod Worked
pub mod Lists
pub mod Runs
pub mod Taken
pub mod Stages
pub mod Accepts
pub mod Wholes
pub mod Merged
pub mod Sound
pub mod Joins
