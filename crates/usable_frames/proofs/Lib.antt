-- Laws of the slots of a frame.
pub mod Sound
pub mod Slots
