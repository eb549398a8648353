-- The laws behind the proofs of the functions.
pub mod Puts
pub mod Sums
pub mod Chunks
