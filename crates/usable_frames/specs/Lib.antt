-- Frames in which no entry is wrong and no port is used twice.
pub mod Usable
