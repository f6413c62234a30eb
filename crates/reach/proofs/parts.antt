-- Laws that belong to no one function.
pub mod Laws
pub mod Distinct
pub mod Worked
