pub mod Terms
pub mod Block
pub mod Keys
pub mod Tables
pub mod Places
pub mod Rearranged
pub mod Tasks
pub mod Narrow
