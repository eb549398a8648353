-- The laws behind the proofs of the functions.
pub mod Numbers
pub mod Runs
pub mod WordLaws
pub mod Codes
