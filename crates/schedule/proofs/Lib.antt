-- Laws of the steps, one file for each that they are about.
pub mod Tabled
pub mod Written
pub mod Framed
pub mod Summed
pub mod Filled
