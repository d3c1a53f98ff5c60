-- Laws of the steps, one file for each that they are about.
pub mod Stepped
pub mod Walked
pub mod Settled
