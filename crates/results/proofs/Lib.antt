pub mod Sides
pub mod Apart
