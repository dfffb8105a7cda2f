pub mod Faults
pub mod Relation
pub mod Reply
pub mod Parts
