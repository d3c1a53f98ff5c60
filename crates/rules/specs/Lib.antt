-- Words, flows, frames and the rules, one subject a page. Ports, slots and flows are numbered from 0 on these pages; document 01's numbers,
-- from 1, stand where an answer is given, in the entries of a frame and in the list.
pub mod Words
pub mod Flows
pub mod Frames
pub mod Rules
pub mod OneFrame
pub mod Schedule
pub mod OddShares
pub mod Pairs
