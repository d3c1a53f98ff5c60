-- Laws of what is read and written.
pub mod Moves
pub mod Longest
pub mod Passed
