pub mod Laws
pub mod Putting
pub mod Reading
