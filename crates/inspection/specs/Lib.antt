-- What the inner functions of Inspect promise.
pub mod Faults
