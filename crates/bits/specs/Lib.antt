-- Numbers by their binary digits.
pub mod Digits
