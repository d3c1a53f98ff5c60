-- What the functions of a tally rest on.
pub mod Beyond
pub mod ByFlow
pub mod Tallies
