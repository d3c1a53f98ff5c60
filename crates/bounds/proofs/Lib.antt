-- Laws of the definitions, one file for each that they are about.
pub mod ByLoad
pub mod Totals
pub mod OneInput
pub mod Reached
pub mod Leads
pub mod Budget
pub mod Cases
