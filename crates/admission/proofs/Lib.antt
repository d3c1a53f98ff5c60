-- What the tests and the loops of Admit rest on.
pub mod Adding
pub mod Admitted
pub mod Cases
pub mod Deciding
