pub mod Zeros
pub mod Least
pub mod Begun
pub mod Sound
pub mod Bound
