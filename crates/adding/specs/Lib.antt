-- What the inner functions of Add promise.
pub mod Placed
