-- What follows for a line card: how many cells wait, and how long.
pub mod Queue
pub mod Wait
pub mod Row
pub mod Line
pub mod Order
