-- Laws of a list that is written.
pub mod Puts
