-- What the functions of the balance promise.
pub mod Balance
