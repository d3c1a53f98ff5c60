-- Laws of the checks.
pub mod Fits
pub mod Lengths
pub mod Listed
pub mod Framed
pub mod Searching
pub mod Links
pub mod Whom
