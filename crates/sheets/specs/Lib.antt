-- The sheet and its response.
pub mod Text
pub mod Sheet
pub mod Responds
