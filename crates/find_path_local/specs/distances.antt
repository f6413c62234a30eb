pub mod Distances
pub mod Post
