pub mod case_text
