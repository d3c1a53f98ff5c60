-- What the searches of Inspect rest on.
pub mod Counted
pub mod Faults
