pub mod Places
pub mod Elements
pub mod Replies
pub mod Meaning
pub mod Samples
