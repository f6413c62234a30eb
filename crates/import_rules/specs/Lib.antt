pub mod Collect
pub mod Listings
pub mod import_words
