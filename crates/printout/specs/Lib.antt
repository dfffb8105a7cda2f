pub mod Program
pub mod Handlers
pub mod Answers
