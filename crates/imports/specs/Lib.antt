pub mod Listings
pub mod order
pub mod lists
