pub mod Answers
pub mod Positions
pub mod Samples
pub mod SendLines
