pub mod Lines
