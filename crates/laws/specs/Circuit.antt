-- A netlist's equations have one solution, and its values are words.
pub mod Shapes
pub mod Ordered
pub mod Inputs
pub mod Causal
pub mod Unique
pub mod Gates
