-- What the inner functions of Admit promise.
pub mod Overloads
