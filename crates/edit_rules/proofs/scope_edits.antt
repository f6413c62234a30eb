-- Laws that belong to no one function.
pub mod Lists
pub mod Moved
pub mod Stepped
pub mod Folded
pub mod Split
pub mod Removed
pub mod Inserted
pub mod Walked
pub mod Shifted
pub mod Numbers
pub mod Edited
pub mod Written
