-- The lines that are printed for an input: definitions and rows, no functions.
pub mod Printed
