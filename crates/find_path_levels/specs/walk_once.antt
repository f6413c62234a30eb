pub mod Walked
pub mod Post
