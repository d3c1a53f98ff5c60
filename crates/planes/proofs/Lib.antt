-- Laws of loops, of digits and of planes, and of each step.
pub mod Lists
pub mod Counts
pub mod Stored
pub mod Placed
pub mod Halves
