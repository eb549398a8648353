-- The laws behind the proofs of the functions.
pub mod Digits
pub mod Puts
