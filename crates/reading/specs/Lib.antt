-- What the functions that read a sheet promise.
pub mod Reading
