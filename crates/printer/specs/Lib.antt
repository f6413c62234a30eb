pub mod Printed
pub mod QuestionKinds
pub mod rules
pub mod route
