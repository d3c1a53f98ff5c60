-- What the functions of Service count rest on.
pub mod Checks
pub mod Counted
pub mod Turns
pub mod Signed
