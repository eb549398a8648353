-- What the proofs of several functions use.
pub mod Stores
pub mod Agree
pub mod Sides
pub mod Nodes
pub mod Parts
pub mod Runs
pub mod Loops
pub mod Procedures
pub mod Answers
