pub mod Full
pub mod Laws
pub mod Joined
pub mod Sifting
pub mod Sizes
pub mod Samples
