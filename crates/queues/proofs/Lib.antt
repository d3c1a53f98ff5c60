-- Laws of the definitions, one file for each that they are about.
pub mod Queues
pub mod Rows
pub mod Lines
pub mod Orders
pub mod Waits
pub mod WholeBlocks
pub mod Latest
pub mod Tight
pub mod CleanChains
pub mod Cases
