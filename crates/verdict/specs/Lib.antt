pub mod Values
pub mod Limits
