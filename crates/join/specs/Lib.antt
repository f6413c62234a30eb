pub mod Joins
pub mod numbers
pub mod records
pub mod new_numbers
