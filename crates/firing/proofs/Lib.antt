pub mod Deliver
pub mod EachThing
pub mod Effects
pub mod Fit
pub mod Fires
pub mod Steps
pub mod Suited
pub mod Tags
