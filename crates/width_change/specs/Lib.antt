pub mod Transfer
pub mod Verdicts
