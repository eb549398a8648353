-- The laws behind the proofs of the functions.
pub mod Scanning
pub mod Moving
pub mod Planning
pub mod ByBytes
pub mod Answering
