-- The steps of Depth.
pub mod Steps
