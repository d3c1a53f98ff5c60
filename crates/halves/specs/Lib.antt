-- The counts of the two halves of a block.
pub mod Steps
