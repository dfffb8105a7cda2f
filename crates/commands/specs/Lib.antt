pub mod Arguments
pub mod Meanings
pub mod Checked
pub mod Printed
pub mod Pairs
