-- Laws of the steps, one file for each that they are about.
pub mod Lists
pub mod Mated
pub mod Joined
pub mod Favoured
pub mod Divided
