pub mod Post
pub mod Valid
pub mod Ends
pub mod Opened
