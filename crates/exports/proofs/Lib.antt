pub mod Asking
pub mod Checking
pub mod Reaching
pub mod Serving
pub mod Texts
