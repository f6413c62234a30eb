pub mod Rows
pub mod Post
