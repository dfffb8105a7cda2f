pub mod Stray
pub mod First
pub mod Allowed
