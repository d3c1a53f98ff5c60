-- Laws of the searches for idle ports.
pub mod Found
