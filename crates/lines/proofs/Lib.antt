-- Laws of what is written on a line.
pub mod Pieces
pub mod Refused
