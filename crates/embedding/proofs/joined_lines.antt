pub mod Heads
pub mod Asked
pub mod Sizes
pub mod Joined
pub mod Worked
