-- What is on the wire, and demand 3.
pub mod Wire
pub mod Loads
