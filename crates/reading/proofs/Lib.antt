-- Laws of the reading of a sheet.
pub mod Pairs
pub mod Lines
