-- How far the cells of a load may be from their share, by the load and by the frame's size alone.
pub mod Stray
pub mod Deviation
pub mod Forms
