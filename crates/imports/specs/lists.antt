pub mod Threads
pub mod Walks
pub mod Writes
