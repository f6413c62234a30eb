-- Laws that belong to no one function.
pub mod Laws
pub mod Fresh
pub mod Afresh
pub mod Numbers
pub mod Worked
