pub mod Nodes
pub mod Elements
pub mod Shapes
pub mod Carried
pub mod Leaks
