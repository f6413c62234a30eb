pub mod Low
pub mod Steps
pub mod Words
pub mod Laws
