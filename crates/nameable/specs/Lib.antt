pub mod Seen
pub mod Paths
pub mod Breadth
pub mod Right
pub mod Queue
