-- Laws of Turn's code.
pub mod Putting
pub mod Turning
pub mod Answered
