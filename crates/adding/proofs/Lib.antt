-- Laws of Add's code.
pub mod Swapping
pub mod Placing
pub mod Answered
