-- One more cell in a frame.
pub mod Exchange
pub mod Add
pub mod Promises
pub mod Swaps
