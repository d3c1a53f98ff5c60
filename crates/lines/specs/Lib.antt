-- What the functions that print a line promise.
pub mod Lines
pub mod Puts
