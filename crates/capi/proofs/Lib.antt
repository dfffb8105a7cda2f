pub mod Samples
pub mod Written
pub mod Refusals
pub mod Systems
pub mod Demands
pub mod Audits
pub mod Taken
