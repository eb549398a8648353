-- The laws behind the proofs of the functions.
pub mod Bits
pub mod Writing
pub mod Parts
pub mod Loops
pub mod Branches
pub mod Whole
pub mod InPlace
pub mod Call
