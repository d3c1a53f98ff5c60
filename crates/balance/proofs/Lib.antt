-- What the functions of the balance rest on.
pub mod Far
pub mod Blocks
