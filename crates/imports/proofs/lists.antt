-- Laws that belong to no one function.
pub mod Keyed
pub mod Threading
pub mod Walks
pub mod Writing
