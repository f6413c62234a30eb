pub mod Levels
pub mod Push
pub mod Post
pub mod Each
pub mod walk_once
