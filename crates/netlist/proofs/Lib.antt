-- The laws behind the proofs of the functions. A crate that puts cells in by itself needs Bytes and Putting, one that goes over those of a file Following.
pub mod Bytes
pub mod CellChecks
pub mod LastChecks
pub mod BlockChecks
pub mod FileChecks
pub mod Putting
pub mod Calls
pub mod Headers
pub mod Comparing
pub mod Following
