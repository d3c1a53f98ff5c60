-- What the functions of the crate do with the lists that they are lent.
pub mod Steps
