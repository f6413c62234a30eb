pub mod Numbers
pub mod Post
