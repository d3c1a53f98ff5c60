-- Laws of the words and numbers of a line.
pub mod Numbers
