pub mod Asked
pub mod Few
pub mod Numbered
pub mod OfWord
pub mod Sorts
