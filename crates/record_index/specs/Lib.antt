pub mod Halves
pub mod Index
pub mod Post
pub mod Ranges
