-- Laws that belong to no one function.
pub mod Regions
pub mod ModuleRows
