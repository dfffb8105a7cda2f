pub mod FourMasks
pub mod Sorts
