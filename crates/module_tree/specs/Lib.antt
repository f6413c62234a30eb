pub mod Privacy
pub mod Differs
pub mod rules
