pub mod Builtins
pub mod Tests
pub mod Steps
pub mod Verdict
pub mod Worked
