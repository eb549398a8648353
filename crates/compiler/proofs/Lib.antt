-- The laws behind the proofs of the functions.
pub mod Writes
pub mod Reading
pub mod Exprs
pub mod Growth
pub mod Chains
pub mod Exits
pub mod Stmts
pub mod Parts
pub mod Joining
pub mod Sizes
pub mod Marks
pub mod Roots
pub mod Assembly
pub mod Call
