pub mod Given
pub mod Home
pub mod Laws
pub mod Nexts
pub mod Sends
