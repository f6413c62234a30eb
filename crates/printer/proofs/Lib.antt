pub mod Laws
pub mod Whole
pub mod Texts
pub mod rules
