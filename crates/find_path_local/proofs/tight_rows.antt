pub mod Farther
pub mod Keeping
