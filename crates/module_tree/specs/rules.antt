-- Modules, maps and blocks, and from where an entry is visible: definitions and rows, no functions.
pub mod Modules
pub mod Visibility
pub mod Privately
pub mod Examples
