-- Laws of the sides of a frame.
pub mod Slots
pub mod Turned
pub mod Agreed
pub mod Bench
