pub mod Relation
pub mod Order
pub mod Loop
pub mod Search
pub mod Answer
