pub mod Bytes
pub mod Numbers
pub mod Strings
pub mod Values
pub mod Answers
pub mod Units
