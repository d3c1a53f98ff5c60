-- Laws of the definitions, one file for each that they are about.
pub mod Reports
pub mod Replies
pub mod Overloads
pub mod Demand2
pub mod Work
pub mod Inspected
pub mod Blocks
pub mod Answers
pub mod Faults
pub mod Clean
pub mod Answered
pub mod Bench
