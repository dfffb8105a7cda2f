pub mod Leak
