-- Laws that belong to no one function.
pub mod Orders
pub mod Visits
pub mod Sorts
pub mod Merges
