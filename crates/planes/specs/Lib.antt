-- Counts as planes of bits, how they are stored, and where the odd ones are.
pub mod Planes
pub mod Tables
pub mod Favours
pub mod Steps
