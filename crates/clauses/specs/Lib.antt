pub mod Asks
pub mod Clauses
