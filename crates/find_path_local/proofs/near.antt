pub mod Falling
pub mod Turning
pub mod Closed
