pub mod Interface
pub mod Manifest
pub mod Overlay
pub mod Converters
