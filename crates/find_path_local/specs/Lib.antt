pub mod Post
pub mod distances
pub mod near
pub mod tight_rows
pub mod path_offers
