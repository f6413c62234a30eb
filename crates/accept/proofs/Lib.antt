-- Laws that belong to no one function.
pub mod Laws
pub mod Turns
pub mod Folds
pub mod Filling
pub mod Tabled
pub mod Ending
pub mod Stable
pub mod Accepted
pub mod Bools
pub mod Ranges
pub mod Trees
pub mod Members
pub mod Places
pub mod Valid
pub mod Reading
pub mod Refused
