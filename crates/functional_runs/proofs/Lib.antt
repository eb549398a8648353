-- The laws behind the proofs of the functions.
pub mod Words
pub mod Telling
