-- Laws of the definitions, one file for each that they are about.
pub mod Earliest
pub mod Strays
pub mod Forms
pub mod Deviations
pub mod Balanced
pub mod Frames
pub mod Repeats
pub mod Cases
