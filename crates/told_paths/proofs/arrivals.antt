pub mod Modules
pub mod Others
pub mod Plainly
pub mod Steps
pub mod Means
