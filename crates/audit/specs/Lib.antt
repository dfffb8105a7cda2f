pub mod Audited
pub mod Passes
