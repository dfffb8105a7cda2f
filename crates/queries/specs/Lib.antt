pub mod Passes
pub mod Ready
pub mod Starts
pub mod Things
