pub mod Grows
pub mod Tried
pub mod Rooms
