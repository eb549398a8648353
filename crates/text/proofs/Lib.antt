-- The laws behind the proofs of the functions.
pub mod Stack
pub mod Bytes
pub mod Bounds
pub mod Moves
pub mod Limits
pub mod Arms
pub mod Going
pub mod Giving
