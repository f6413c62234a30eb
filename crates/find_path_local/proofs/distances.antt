-- Laws that belong to no one function.
pub mod Near
pub mod Lowering
pub mod Marking
pub mod Relaxing
