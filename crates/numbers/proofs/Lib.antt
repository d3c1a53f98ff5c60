-- Lemmas about the numbers of answers.
pub mod Told
