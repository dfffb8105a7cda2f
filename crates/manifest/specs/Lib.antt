pub mod Strings
pub mod Members
pub mod Manifest
pub mod Answer
