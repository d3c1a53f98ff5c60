-- Laws of each step.
pub mod Marked
pub mod Halved
