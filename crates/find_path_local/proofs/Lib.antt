pub mod Knowns
pub mod Nests
pub mod Searches
