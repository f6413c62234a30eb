-- The state of eight windows, a question placed and a turn: definitions and rows, no functions.
pub mod States
