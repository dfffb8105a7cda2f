pub mod Words
pub mod Scan
pub mod Code
pub mod Answer
pub mod Rest
pub mod Item
pub mod Links
