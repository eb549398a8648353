-- The laws behind the proofs of the functions.
pub mod Lines
pub mod Texts
