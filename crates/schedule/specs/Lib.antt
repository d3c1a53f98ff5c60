-- What the functions of the crate do, in the words of the model.
pub mod Steps
