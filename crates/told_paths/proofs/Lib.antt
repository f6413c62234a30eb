pub mod Laws
pub mod Unwound
