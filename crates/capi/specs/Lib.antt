pub mod Check
pub mod Interface
