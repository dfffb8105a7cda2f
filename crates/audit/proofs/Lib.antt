pub mod Exact
pub mod Own
pub mod Places
pub mod Samples
pub mod Steps
