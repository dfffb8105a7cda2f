pub mod Named
pub mod Clean
pub mod Firsts
pub mod Own
pub mod Samples
pub mod Sliced
pub mod Words
