pub mod Laws
pub mod Passes
pub mod Trees
pub mod Roles
