pub mod Decides
pub mod Lowered
pub mod Obeyed
pub mod Sends
pub mod Things
pub mod Viewed
pub mod Words
