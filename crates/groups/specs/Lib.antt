-- How the groups of odd counts are settled.
pub mod Steps
