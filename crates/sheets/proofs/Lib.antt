-- Laws of the definitions, one file for each that they are about.
pub mod Text
pub mod Sheets
pub mod Responses
pub mod Lengths
pub mod Bench
