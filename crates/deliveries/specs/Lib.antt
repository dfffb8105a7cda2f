pub mod Answers
pub mod Positions
pub mod Text
