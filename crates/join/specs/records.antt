pub mod Moves
pub mod Writes
pub mod Roles
