pub mod Fired
pub mod Placed
pub mod Sending
pub mod Suits
pub mod Step
