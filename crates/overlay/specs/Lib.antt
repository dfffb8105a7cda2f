pub mod Lookup
pub mod Join
pub mod Answers
pub mod Parts
