-- An answer's numbers, one by one, and the number of a side.
pub mod Numbers
pub mod Sides
