pub mod Rows
pub mod Walks
pub mod Rooms
pub mod Codes
pub mod Stacks
pub mod Nexts
pub mod Gathers
pub mod Each
