-- Laws that belong to no one function.
pub mod Laws
pub mod Judged
pub mod Tabled
pub mod Indexed
pub mod Grows
