pub mod Items
pub mod Starts
