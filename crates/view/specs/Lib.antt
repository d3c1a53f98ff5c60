-- What the functions of Slot view promise.
pub mod Asked
pub mod Parts
