pub mod Converters
pub mod Answers
