pub mod Reach
pub mod Within
