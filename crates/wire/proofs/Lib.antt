-- Laws of the definitions, one file for each that they are about.
pub mod Chains
pub mod Demand3
pub mod Bench
