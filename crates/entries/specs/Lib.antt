-- What the searches of the entries promise, and the words by which a frame is read.
pub mod Entries
pub mod Usable
