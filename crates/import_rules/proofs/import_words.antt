-- Laws that belong to no one function.
pub mod Fitting
pub mod Infos
pub mod Taken
pub mod Runs
pub mod Put
pub mod Built
pub mod Worked
