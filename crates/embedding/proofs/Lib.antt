-- Laws that belong to no one function.
pub mod Chains
pub mod Lookups
pub mod Scopes
pub mod Walks
pub mod Nameres
pub mod Crates
pub mod Choices
pub mod Rules
pub mod Local
pub mod Charged
pub mod Questions
pub mod Reading
pub mod Lines
pub mod Parts
pub mod Stays
pub mod joined_lines
