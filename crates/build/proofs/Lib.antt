-- Laws of what Build leaves.
pub mod Built
