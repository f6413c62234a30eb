pub mod Verdict
pub mod Text
