-- What the functions of a line's words and numbers promise.
pub mod Numbers
