pub mod Outward
pub mod Found
pub mod Cases
pub mod Exact
pub mod Keywords
pub mod readings
