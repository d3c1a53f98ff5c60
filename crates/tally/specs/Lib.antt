-- What the functions of a tally promise.
pub mod Tally
