-- What each call answers, one subject a page, and demand 2.
pub mod Refusals
pub mod Work
pub mod Build
pub mod Demand2
pub mod Sides
pub mod Inspect
pub mod Service
pub mod Depth
pub mod Added
pub mod Answers
