-- How far from its share a run can be, by the loads and by the frame's size alone, that this is reached, and how much work a build can be.
pub mod ByLoad
pub mod Sharp
pub mod Total
pub mod Reached
pub mod Lead
pub mod Budget
