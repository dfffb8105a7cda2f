pub mod Stream
pub mod Outcome
pub mod Report
pub mod Tally
pub mod Writing
pub mod Steps
