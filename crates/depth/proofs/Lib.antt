-- Laws of the steps, one file for each that they are about.
pub mod Peaks
pub mod Asked
