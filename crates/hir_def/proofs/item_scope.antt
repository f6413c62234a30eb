pub mod Along
pub mod Two
