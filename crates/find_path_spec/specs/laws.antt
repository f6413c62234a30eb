-- Laws of the search: what two fuels and two limits have to do with each other, routes, reading back, the visited set; and those of the
-- local search, by which a fast form answers as the plain rules do. Definitions and theorems, no functions.
pub mod Near
pub mod Fuels
pub mod Limits
pub mod Routes
pub mod Reading
pub mod Visited
