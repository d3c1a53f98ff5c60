-- Laws of the searches and of words.
pub mod Found
pub mod Words
pub mod Read
pub mod Told
