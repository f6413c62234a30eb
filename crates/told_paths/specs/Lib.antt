pub mod Tells
pub mod arrivals
pub mod told_routes
