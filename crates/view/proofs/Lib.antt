-- What the functions of Slot view rest on.
pub mod Checks
