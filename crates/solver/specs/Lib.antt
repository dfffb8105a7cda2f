pub mod Analysis
pub mod Ceiling
