pub mod Choices
pub mod Given
pub mod StepRules
