-- The bytes of a state hold that solution.
pub mod Bytes
pub mod Lines
pub mod Passes
pub mod Clean
pub mod Arrays
pub mod Flight
pub mod Continuing
